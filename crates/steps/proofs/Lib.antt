pub mod StepsLaws
