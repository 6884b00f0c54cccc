-- The operations on a machine's own numbers: each is what its call does.
use Rattle.std.specs.Prelude.{List, ℕ}
use Rattle.memory.specs.Storage.{Valued}
use Rattle.machine.specs.Numbers.{Numbers, with_registers, register, set_register, update_pc, commit_pc, set_cycles, set_max_cycles}

pub data Op : Type 0 where
  registers? : Op
  registers! : List ℕ → Op
  register? : ℕ → Op
  register! : ℕ → ℕ → Op
  pc? : Op
  pc! : ℕ → Op
  commit! : Op
  version? : Op
  cycles? : Op
  cycles! : ℕ → Op
  max_cycles? : Op
  max_cycles! : ℕ → Op

abbrev pub Reply : Op → Type 0
Reply registers? = List ℕ
Reply (registers! l) = ℕ
Reply (register? i) = Valued
Reply (register! i x) = ℕ
Reply pc? = ℕ
Reply (pc! x) = ℕ
Reply commit! = ℕ
Reply version? = ℕ
Reply cycles? = ℕ
Reply (cycles! x) = ℕ
Reply max_cycles? = ℕ
Reply (max_cycles! x) = ℕ

abbrev pub does : (o : Op) → Numbers → Reply o × Numbers
does registers? n = (n.registers, n)
does (registers! l) n = (0, with_registers l n)
does (register? i) n = (register i n, n)
does (register! i x) n = set_register i x n
does pc? n = (n.pc, n)
does (pc! x) n = (0, update_pc x n)
does commit! n = (0, commit_pc n)
does version? n = (n.version, n)
does cycles? n = (n.cycles, n)
does (cycles! x) n = (0, set_cycles x n)
does max_cycles? n = (n.max_cycles, n)
does (max_cycles! x) n = (0, set_max_cycles x n)
