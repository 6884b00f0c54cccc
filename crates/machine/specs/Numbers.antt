-- A machine's own numbers, and what each call on them answers and leaves.
use Rattle.std.specs.Prelude.{cond, List, ℕ, get_or, set, ltb}
use Rattle.words.specs.Bytes.{filled}
use Rattle.memory.specs.declared.Memory.{Memory}
use Rattle.memory.specs.Storage.{Valued, valued, no_value}
use Rattle.machine.specs.declared.Machine.{Machine}

-- "32 registers of 64 bits"
abbrev pub general_registers : ℕ
general_registers = 32

-- "registers, pc and pending pc, version, cycles, maximum cycles"
pub record Numbers : Type 0 where
  pub registers : List ℕ
  pub pc : ℕ
  pub next_pc : ℕ
  pub version : ℕ
  pub cycles : ℕ
  pub max_cycles : ℕ

-- a machine is its own numbers and its memory's
abbrev pub numbers_of : Machine → Numbers
numbers_of m =
    record {
      registers = m.registers;
      pc = m.pc;
      next_pc = m.next_pc;
      version = m.version;
      cycles = m.cycles;
      max_cycles = m.max_cycles;
    }

abbrev pub machine_of : Numbers → Memory → Machine
machine_of n memory =
    record {
      registers = n.registers;
      pc = n.pc;
      next_pc = n.next_pc;
      version = n.version;
      cycles = n.cycles;
      max_cycles = n.max_cycles;
      memory = memory;
    }

-- a number that a call answered, and the machine with the numbers that it left
abbrev pub changed : ℕ × Numbers → Memory → ℕ × Machine
changed r memory = (r.0, machine_of r.1 memory)

-- "A fresh machine's registers, pc, pending pc and cycles are 0" (reading 12)
abbrev pub fresh_numbers : ℕ → ℕ → Numbers
fresh_numbers version maximum =
    record { registers = filled general_registers 0; pc = 0; next_pc = 0; version = version; cycles = 0; max_cycles = maximum }

-- "A refused call gives 0 for each number": no machine
abbrev pub no_numbers : Numbers
no_numbers = fresh_numbers 0 0

-- ---- registers

-- "10: register number 32 or more": nothing changed
unfoldable pub register : ℕ → Numbers → Valued
register i n = cond (ltb i general_registers) (valued (get_or n.registers i 0)) (no_value 10)

abbrev pub with_registers : List ℕ → Numbers → Numbers
with_registers registers n =
    record {
      registers = registers;
      pc = n.pc;
      next_pc = n.next_pc;
      version = n.version;
      cycles = n.cycles;
      max_cycles = n.max_cycles;
    }

-- "Register 0 is writable" (reading 12)
unfoldable pub set_register : ℕ → ℕ → Numbers → ℕ × Numbers
set_register i x n = cond (ltb i general_registers) (0, with_registers (set n.registers i x) n) (10, n)

-- ---- pc and pending pc

abbrev pub with_pc : ℕ → ℕ → Numbers → Numbers
with_pc pc next n =
    record {
      registers = n.registers;
      pc = pc;
      next_pc = next;
      version = n.version;
      cycles = n.cycles;
      max_cycles = n.max_cycles;
    }

-- update_pc sets the pending pc, which commit_pc makes the pc
abbrev pub update_pc : ℕ → Numbers → Numbers
update_pc x n = with_pc n.pc x n

abbrev pub commit_pc : Numbers → Numbers
commit_pc n = with_pc n.next_pc n.next_pc n

-- ---- cycles and their maximum

abbrev pub with_cycles : ℕ → ℕ → Numbers → Numbers
with_cycles cycles maximum n =
    record {
      registers = n.registers;
      pc = n.pc;
      next_pc = n.next_pc;
      version = n.version;
      cycles = cycles;
      max_cycles = maximum;
    }

abbrev pub set_cycles : ℕ → Numbers → Numbers
set_cycles x n = with_cycles x n.max_cycles n

abbrev pub set_max_cycles : ℕ → Numbers → Numbers
set_max_cycles x n = with_cycles n.cycles x n
