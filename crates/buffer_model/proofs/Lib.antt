-- MeetingContract: how a contract is met. TestsAreTheView: the code's tests are those of the plain state. Opening, Moving,
-- Executing, Committing: each call meets its contract. Ordered: refused when a condition holds, and only then, with the smallest
-- number. Outcomes: 10 exactly where no row is to be had, a squash named exactly where the list requires it. Numbers: stages and
-- issue numbers under the calls. Tickets: the ticket theorem. Stale: a dead load's late calls, by it. Exact: its bound. Starred:
-- the examples. Broken: damaged tables.
pub mod MeetingContract
pub mod TestsAreTheView
pub mod Opening
pub mod Moving
pub mod Executing
pub mod Committing
pub mod Ordered
pub mod Outcomes
pub mod Numbers
pub mod Tickets
pub mod Stale
pub mod Exact
pub mod Starred
pub mod Broken
