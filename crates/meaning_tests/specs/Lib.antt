pub mod Puppets
