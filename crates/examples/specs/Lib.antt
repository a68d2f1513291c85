pub mod CatalogueTable
pub mod Limits
pub mod ListsTable
pub mod MendTable
pub mod NumberTable
pub mod Printed
pub mod Table
pub mod TextTable
