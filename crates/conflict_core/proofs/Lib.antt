pub mod PlaceFacts
pub mod FirstFacts
pub mod CodeFacts
pub mod ExampleFacts
pub mod WireFacts
