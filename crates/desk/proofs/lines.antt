-- The laws of the lines of the stations.
pub mod StationLines
