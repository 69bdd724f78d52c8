pub mod ByteLaws
pub mod FieldLaws
pub mod Inversions
pub mod JoinLaws
pub mod NguidLaws
pub mod NumberLaws
