-- what may be sent, and its bytes
pub mod Spelling
-- states by their parts, with no list of facts
pub mod Parts
-- reading bytes from left to right
pub mod Reading
-- logs of what was done, put and taken
pub mod History
-- what `==` answers
pub mod Comparing
-- logs in one area of bytes
pub mod LogFields
