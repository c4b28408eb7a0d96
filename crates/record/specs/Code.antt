-- Definitions that only the code needs: what it writes, and what it read, as it holds them. No sentence of document 01 stands below this page.
pub mod Content
pub mod Answer
