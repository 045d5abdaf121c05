pub mod KeptLemmas
pub mod PlaceLemmas
pub mod ReadingLemmas
pub mod DurationLemmas
pub mod EndingLemmas
pub mod SoundLemmas
