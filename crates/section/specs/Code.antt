-- Definitions that only the code needs: what it may assume, and how it holds the layers, now and before. No sentence of document 01 stands below this page.
pub mod Usable
pub mod Accepted
pub mod Columns
pub mod Altered
