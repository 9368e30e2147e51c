-- texts of XML documents
pub mod Escaped
