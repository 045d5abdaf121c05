pub mod IdLemmas
pub mod ReadLemmas
pub mod ApartLemmas
