pub mod PureNumbers
mod CallsFound
