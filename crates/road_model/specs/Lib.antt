pub mod Letters
pub mod OriginFields
pub mod Origins
pub mod RoadFields
pub mod Roads
pub mod VehicleFields
pub mod Vehicles
