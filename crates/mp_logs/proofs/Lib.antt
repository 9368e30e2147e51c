-- in reading order: parts of logs; what is done goes on; logs made of parts; logs of one schedule; logs without bad receipts
pub mod Pieces
pub mod Onward
pub mod Made
pub mod OneSchedule
pub mod LeftOut
pub mod Behind
pub mod Settled
