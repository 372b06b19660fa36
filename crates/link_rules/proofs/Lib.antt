mod GoingOn
mod KeyTexts
