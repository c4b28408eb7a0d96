-- Definitions that only the code needs: the ranges in which its products fit. No sentence of document 01 stands below this page.
pub mod Ranges
