-- The theorems of the two files: trees within the limits and the fields that spell them, one to one.
pub mod Spelling
pub mod Exactness
pub mod AllStated
pub mod SymbolFields
pub mod Growing
pub mod TermFields
pub mod FillingFields
pub mod BookFields
pub mod UseFields
pub mod LineFields
pub mod CertificateFields
pub mod OneToOne
pub mod FixedBooks
pub mod ComparedSides
pub mod FewFields
