-- Limits: the numbers that document 01 sets (Records, Moves, A night played), each by its name.
use Rattle.std.specs.Prelude.{ℕ}

-- Atoms: values are 1 to first_variable - 1, then come the variables, then the labels, the last of which is no_atom - 1.
abbrev pub first_variable : ℕ
first_variable = 32768

abbrev pub first_label : ℕ
first_label = 49152

abbrev pub no_atom : ℕ
no_atom = 65536

-- The most records of a table, their bytes, and the greatest depth; intervals are below no_interval.
abbrev pub max_records : ℕ
max_records = 2048

abbrev pub max_bytes : ℕ
max_bytes = 32768

abbrev pub max_depth : ℕ
max_depth = 256

abbrev pub no_interval : ℕ
no_interval = 65536

-- The most slots of a tuple, and the most bytes of a list of moves.
abbrev pub max_slots : ℕ
max_slots = 4

abbrev pub max_list_bytes : ℕ
max_list_bytes = 60000
