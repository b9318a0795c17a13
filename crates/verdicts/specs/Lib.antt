-- What the judge and the program answer, and the line that is printed for it.
pub mod Judging
pub mod Demands
pub mod Program
pub mod Decimal
pub mod Printing
pub mod Cases
