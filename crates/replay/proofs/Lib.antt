pub mod AlongLaws
pub mod CutLaws
