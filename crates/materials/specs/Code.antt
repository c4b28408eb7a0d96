-- Definitions that only the code needs: how it holds the factors. No sentence of document 01 stands below this page.
pub mod Factors
