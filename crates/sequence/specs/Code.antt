-- Definitions that only the code needs: what sorting does to the sixteen places. No sentence of document 02 stands below this page.
pub mod Sorting
