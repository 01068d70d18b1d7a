pub mod Embed
pub mod EmbedLaws
pub mod Rest
pub mod RestLaws
