-- The rules of the table of tokens: a form each, apart from the bytes that begin none.

pub data Rule : Type 0 where
  spaces : Rule
  line_comment : Rule
  block_comment : Rule
  text : Rule
  blob : Rule
  unpaired_blob : Rule
  quoted : Rule
  unclosed : Rule
  word : Rule
  number : Rule
  joined_number : Rule
  parameter : Rule
  wrong_parameter : Rule
  symbol : Rule
