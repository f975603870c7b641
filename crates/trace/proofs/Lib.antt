mod PlainDigits
