-- Definitions that only the code needs: what it computes. No sentence of document 01 stands below this page.
pub mod Whole
