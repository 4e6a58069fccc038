mod TwoOrders
mod TwoOrdersTurns
mod TwoOrdersRefused
