pub mod GatekeeperView
