-- The definitions that contracts cite, in reading order. The words in TreeReading are the reader's own, those
-- in Planning are of the steps, and those in Joining are of the run by one whole plan.
pub mod TreeWords
pub mod TreeReading
pub mod Trees
pub mod Planning
pub mod TreeReports
pub mod Joining
pub mod TreeParts
pub mod Spans
pub mod TreeFiles
pub mod TreeStops
pub mod TreeEnds
pub mod TreeRuns
pub mod TreeAnswers
pub mod TreeComplete
pub mod TreeMeant
