pub mod ImageHeadlines
pub mod PlanHeadlines
pub mod Repairs
pub mod RepairHeadlines
pub mod FactHeadlines
pub mod UndoHeadlines
pub mod AuditHeadlines
pub mod EditHeadlines
