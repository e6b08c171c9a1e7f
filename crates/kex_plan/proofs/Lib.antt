pub mod ToldPlans
