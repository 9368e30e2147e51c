-- what is told of a plan and of a certificate
pub mod Told
-- why a certificate or a plan was not read
pub mod Reading
-- audits for the files of a team
pub mod Audits
-- certificates for the files of a team
pub mod Certified
