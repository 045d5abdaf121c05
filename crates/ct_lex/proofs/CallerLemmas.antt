-- What crates above may cite of readings:
-- there is one reading from each place, and how it goes on; each command leaves less of the text;
-- what is read is what the grammar writes; what is written as CMake writes it is read back.
pub use Rattle.ct_lex.proofs.OneReading.{one_reading, next-shorter, reading-step, reads_on}
pub use Rattle.ct_lex.proofs.RoundTrip.{reads_written}
pub use Rattle.ct_lex.proofs.RestLemmas.{rest-is, rest-reads, reads_files, writes_on}
