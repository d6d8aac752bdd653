pub mod Taken
pub mod CheckLines
pub mod SaidInOrder
pub mod CheckGoing
pub mod OneCertificate
pub mod OneAnswer
pub mod PrintedLines
pub mod ReadBackLemmas
