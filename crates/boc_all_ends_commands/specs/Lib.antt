pub mod AllEndsAnswers
pub mod EndRunAnswers
