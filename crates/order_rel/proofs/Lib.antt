pub mod LinkFacts
pub mod ClimbFacts
pub mod PathTests
pub mod ToldFacts
pub mod ClimbCases
pub mod OrderedFacts
pub mod FormedTests
pub mod ExampleFacts
