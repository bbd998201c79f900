pub mod RefusalNumbers
pub mod PresentShape
pub mod FirstFound
