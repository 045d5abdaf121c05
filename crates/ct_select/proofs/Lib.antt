mod StrideLemmas
mod ChosenLemmas
mod MatcherLemmas
