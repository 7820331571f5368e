-- Laws: the text of a request is read, and nothing else, and the contract of `answer` follows.
pub mod CallerLaw
pub mod LinesLaw
pub mod RequestLaw
pub mod ContractLaw
pub mod ExchangeLaw
-- The returns of the routines, over plain variables.
pub mod TextTurn
pub mod AnswerTurn
pub mod RequestTurn
