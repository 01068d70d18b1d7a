pub mod Streams
pub mod StreamsLaws
