pub mod Bytes
pub mod Csv
pub mod Latex
pub mod Grammar
pub mod Both
pub mod Columns
