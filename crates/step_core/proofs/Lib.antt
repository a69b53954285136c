mod AllRegions
mod FirstRegions
mod StepsAt
