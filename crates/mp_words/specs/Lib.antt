-- numbers as words
pub mod Numbers
-- what words ask for
pub mod Asked
-- words one after another
pub mod Words
-- what the program keeps of words
pub mod Reads
-- which requests are accepted
pub mod Requests
