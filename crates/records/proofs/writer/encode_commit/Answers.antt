use Rattle.std.proofs.Common.{arith}
use Rattle.records.specs.Values.{low_bytes}
use Rattle.records.proofs.Commits.{commit_written}
use Rattle.records.proofs.writer.encode_commit.Goals as goal

pub returns : goal.returns
returns c =
    commit_written c.args.splice c.args.numbers c.args.name.now c.stored_name-name.result.now c.source_numbers-source.result c.also_numbers-also.result
    c.args.out.now c.put_numbers.new.out c.put_numbers-2.new.out c.close.new.out c.source_numbers-source.ensures
    (c.also_numbers-also.ensures (low_bytes c.args.name.now)) c.stored_name-name.ensures c.put_numbers.ensures c.put_numbers-2.ensures (omega arith) c.close.ensures
