-- Definitions that only the code needs: what it may assume, and what it computes. No sentence of document 02 stands below this page.
pub mod Range
pub mod Bound
pub mod Whole
