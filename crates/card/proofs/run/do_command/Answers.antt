use mathlib.Core.Path.{sym}
use Rattle.packet.proofs.ElementLaws.{is_read, is-write, never-refused}
use Rattle.card.proofs.CommandRunLaws.{read_keeps, write-reads, laid-back, laid_none}
use borrow.Author.Rules.{rules}
use Rattle.card.proofs.run.do_command.Goals as goal

pub read_command-requires : goal.read_command-requires
read_command-requires c = let r = is_read _ _ c.read_or_write-which.ensures c.in-Read.is in
    search rules

pub write_command-requires : goal.write_command-requires
write_command-requires c = let w = is-write _ _ c.read_or_write-which.ensures c.in-Write.is in
    search rules

pub returns-in-Read : goal.returns-in-Read
returns-in-Read c = let r = is_read _ _ c.read_or_write-which.ensures c.in-Read.is in
    record {
      store_after = sym (read_keeps _ _ _ _ r);
      reply_after = laid-back _ _ _ _ c.read_command.ensures;
    }

pub returns-in-Write : goal.returns-in-Write
returns-in-Write c = let w = is-write _ _ c.read_or_write-which.ensures c.in-Write.is in
    record {
      store_after = c.write_command.ensures;
      reply_after = laid_none _ _ _ (write-reads _ _ _ _ w);
    }

pub returns-in-Refused : goal.returns-in-Refused
returns-in-Refused c = absurd (never-refused _ _ c.read_or_write-which.ensures _ c.in-Refused.is)
