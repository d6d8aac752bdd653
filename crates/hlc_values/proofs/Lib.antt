pub mod MemberLemmas
pub mod SortedLemmas
pub mod PigeonLemmas
