-- The laws of the door: its promises leave no choice, and its numbers tell the answer.
pub mod OneAnswer
