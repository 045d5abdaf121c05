-- The definitions that contracts cite, in reading order: what a test file is.
pub mod Bytes
pub mod Argument
pub mod Grammar
pub mod Broken
pub mod Written
pub mod Place
pub mod Reads
pub mod Files
-- How the reader reads a test file, byte by byte: what its own contracts cite, and where a refusal stands.
pub mod Stop
pub mod Bracket
pub mod Unit
pub mod Text
pub mod Extent
pub mod Args
pub mod Next
pub mod Command
pub mod Seen
pub mod Joined
