pub mod StandingRules
