mod ClassLines
