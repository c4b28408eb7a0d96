-- Definitions that only the code needs: texts in a lent buffer. No sentence of document 01 stands below this page.
pub mod Buffer
