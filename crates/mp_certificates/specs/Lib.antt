-- the text of a certificate
pub mod Text
-- texts of certificates of a team, and the first line of others that is refused
pub mod Accepted
-- fields of a line, read from left to right
pub mod Reading
