-- Definitions that only the code needs: the ranges in which its products fit, and where links and strut cross. No sentence of a document
-- stands below this page.
pub mod Ranges
pub mod Crossing
