mod TransferText
mod StrayTokens
mod WrongNameTexts
