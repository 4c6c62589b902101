-- What a caller asks for, as the code has it.
use Rattle.rules.specs.Issue.{Request, add, remove, move}
use Rattle.request.specs.declared.request.Request.TheVariants.{Add, Remove, Move}
use Rattle.request.specs.declared.request.Request as code

-- in the rules' terms
abbrev pub request_of : code.Request → Request
request_of (Add p) = add p
request_of (Remove n) = remove n
request_of (Move n p) = move n p
